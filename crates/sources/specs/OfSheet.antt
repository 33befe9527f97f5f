-- What a sheet means. The file that declares the sheet cites this one inside an `impl` alone, since this one names the sheet.
use Rattle.sources.specs.declared.sheets.Sheet.{Sheet}
use Rattle.sources.specs.Meaning.{Meaning}
use Rattle.sources.specs.Sheets.{sheet_of}

abbrev pub sheet_meaning : Sheet → Meaning
sheet_meaning s = sheet_of s.heading s.starts.now s.entries.now
