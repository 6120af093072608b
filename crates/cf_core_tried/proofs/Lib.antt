mod Validity
