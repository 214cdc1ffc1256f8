mod Frames
mod Rolls
