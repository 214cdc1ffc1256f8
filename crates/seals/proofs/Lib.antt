mod Laid
