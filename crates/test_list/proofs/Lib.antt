-- What the first of some bytes cuts a line into.
mod Cutting
