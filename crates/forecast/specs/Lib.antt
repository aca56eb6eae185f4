-- How big a plan will be, what the call's answer means, and what is claimed of it.
pub mod Forecast
pub mod Answer
pub mod Claims
