-- Each refusal of a book or of an entry in numbers.
use Rattle.stack.specs.declared.fault.Report.{Report}
use Rattle.stack.specs.Faults.{fault_report}
use Rattle.book.specs.declared.fault.BookFault.{BookFault}
use Rattle.book.specs.declared.fault.BookFault.TheVariants.{Size, Width, Count, Start, Unlisted, Kind, Length, Buffers}
use Rattle.book.specs.declared.fault.BookReport.{BookReport}
use Rattle.book.specs.declared.fault.EntryFault.{EntryFault}
use Rattle.book.specs.declared.fault.EntryFault.TheVariants.{Mark, Coding}

-- a refused book: the number, and the entry from 1, or 0
abbrev pub book_report : BookFault → BookReport
book_report Size = record { number = 10; entry = 0 }
book_report Width = record { number = 11; entry = 0 }
book_report Count = record { number = 12; entry = 0 }
book_report (Start e) = record { number = 13; entry = e }
book_report (Unlisted e) = record { number = 14; entry = e }
book_report (Kind e) = record { number = 15; entry = e }
book_report (Length e) = record { number = 16; entry = e }
book_report Buffers = record { number = 3; entry = 0 }

-- a refused entry
abbrev pub entry_report : EntryFault → Report
entry_report (Mark offset) = record { number = 17; depth = 0; place = offset }
entry_report (Coding f) = fault_report f
