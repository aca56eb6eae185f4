-- A plan recorded as sent, in one call: what it is, and that it is all or nothing.
pub mod SendingPlan
pub mod PlanClaims
