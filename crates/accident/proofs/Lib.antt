mod Certificates
mod Reports
mod Stands
