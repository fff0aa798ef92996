mod Beginning
mod Prefixes
mod Numbers
mod RoundStarts
mod Used
mod Starts
mod Schedulers
mod Running
mod Seeing
mod Holding
mod Bringing
mod Committing
mod Ending
mod Serializing
pub mod Crossing
mod Copying
mod Leaving
mod Pins
