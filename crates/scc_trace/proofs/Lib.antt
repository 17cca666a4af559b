mod Back
mod Cuts
mod Digits
mod Nibble
mod Pairs
mod Turns
