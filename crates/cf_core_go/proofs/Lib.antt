mod Meant
