pub mod RunFaults
pub mod Rehearsing
pub mod PlanRehearsal
pub mod RehearsalLaws
