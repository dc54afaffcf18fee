mod Known
mod Lists
mod Ends
mod Statuses
mod Finished
mod Wired
mod Reported
mod Stops
