-- The laws that entering a plan rests on, and its claims.
pub mod SendingPlan
pub mod PlanClaims
