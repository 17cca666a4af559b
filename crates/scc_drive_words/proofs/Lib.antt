mod Counted
mod Mapped
