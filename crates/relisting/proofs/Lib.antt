pub mod Relisting
