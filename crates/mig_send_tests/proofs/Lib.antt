mod TwoWorkers
