-- How a fault of a book is read.
use Rattle.book.specs.declared.fault.BookFault.{BookFault}
use Rattle.book.specs.declared.fault.BookFault.TheVariants.{Overfull}
use Rattle.refusals.specs.Reading.{Reading, found}
use Rattle.refusals.specs.declared.Layer.TheVariants.{Book}
use Rattle.refusals.specs.declared.Cause.TheVariants as cause

abbrev pub book_reading : BookFault → Reading
book_reading Overfull = found Book cause.Overfull 0
