mod Going
mod Planning
