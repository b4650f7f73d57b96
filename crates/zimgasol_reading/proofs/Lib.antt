mod Answering
pub mod Completing
mod Consuming
mod Counting
mod Endings
mod Filling
pub mod Headers
mod Images
mod Inlets
mod Loading
mod PassedPages
mod SeenAfter
mod Surveying
mod TailDescribed
mod TailHead
mod TailLists
mod TailLooked
mod TailWindow
mod Wholes
