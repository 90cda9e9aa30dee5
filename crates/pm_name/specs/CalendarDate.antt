-- Dates of the program as dates of the calendar.
use Rattle.pm_name.specs.Calendar.{Date}
use Rattle.pm_name.specs.declared.date.CalendarDate.{CalendarDate}

-- The date with these parts.
abbrev pub date_of : CalendarDate → Date
date_of parts = record { year = parts.year; month = parts.month; day = parts.day }
