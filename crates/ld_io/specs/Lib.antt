pub mod Devices
pub mod Inner
pub mod Transfer
