mod Ends
mod Keeping
mod Seeking
