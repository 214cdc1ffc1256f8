mod Found
mod Places
mod Keeping
mod Few
mod Blank
mod Heads
mod Rooms
mod Lasting
