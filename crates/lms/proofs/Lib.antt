mod Laid
mod Levels
mod Steps
mod Parsed
mod Judged
