mod Over
mod Telling
mod QuickConditions
