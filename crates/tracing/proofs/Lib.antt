mod Accessed
