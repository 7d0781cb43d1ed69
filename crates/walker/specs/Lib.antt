pub mod Walker
