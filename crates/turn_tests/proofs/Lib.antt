mod Tapes
