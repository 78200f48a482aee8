mod Numbers
mod Texts
mod GenFit
mod GenWithin
