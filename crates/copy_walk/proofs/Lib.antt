pub mod CopyLoop
