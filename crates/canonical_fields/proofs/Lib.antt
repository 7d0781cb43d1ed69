pub mod StoredBack
