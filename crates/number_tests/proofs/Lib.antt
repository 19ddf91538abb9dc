mod TestedSystem
