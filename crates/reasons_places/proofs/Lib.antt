pub mod PlacesEqual
