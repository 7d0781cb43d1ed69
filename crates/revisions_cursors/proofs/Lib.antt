pub mod CursorsMerge
