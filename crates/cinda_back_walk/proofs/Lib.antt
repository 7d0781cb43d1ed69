pub mod LinesStored
