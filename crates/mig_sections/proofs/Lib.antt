mod WholeSections
