pub mod Stopping
pub mod Fewer
pub mod Rehearsed
pub mod PlanRehearsals
pub mod RehearsalLaws
pub mod Refusals
