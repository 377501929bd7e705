mod Ends
mod Passing
mod Walks
