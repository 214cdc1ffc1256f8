mod Four
