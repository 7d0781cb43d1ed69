pub mod EndRoles
pub mod AcceptedBegins
pub mod EntriesMet
