mod Fenced
