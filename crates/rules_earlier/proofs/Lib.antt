pub mod EarlierParts
