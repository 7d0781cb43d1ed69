pub mod Words
pub mod Energies
pub mod Back
