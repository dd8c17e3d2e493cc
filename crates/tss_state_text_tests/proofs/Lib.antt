mod ReachedStates
