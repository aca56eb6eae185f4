-- Traffic plans: how they are judged, and what is claimed of that.
pub mod Plan
pub mod Judge
pub mod Claims
