pub mod Places
pub mod ShownPlaces
