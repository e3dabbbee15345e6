pub mod Inner
pub mod Usage
pub mod Violations
pub mod Alarms
pub mod Findings
pub mod Forbidden
