-- What the contracts of private functions speak of: no public promise needs it.
pub mod Bundles
pub mod KeyPlaces
pub mod Laying
pub mod Pooling
pub mod Telling
