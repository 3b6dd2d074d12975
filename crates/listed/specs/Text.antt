-- The listing of a file as an answer.
-- Assumes nothing.
use Rattle.std.specs.Prelude.{Bool, true, false, List, [], ◌++◌, ℕ}
use Rattle.reading.specs.Got.{Got, got, bad}
use Rattle.reader.specs.Values.{Typelib}
use Rattle.reader.specs.Reader.{decode, check_of}
use Rattle.text.specs.Line.{newline}
use Rattle.printed.specs.Listing.{listing_of}
use Rattle.lines.specs.Tabs.{tabbed}
use Rattle.said.specs.Saying.{Saying, saying, verdict_why}

-- a text as it is answered, in a batch or not
unfoldable pub shown : Bool → List ℕ → List ℕ
shown true s = tabbed s
shown false s = s

-- the newline that ends an answer of a batch
unfoldable pub closing : Bool → List ℕ
closing true = newline
closing false = []

-- in a batch the listing is one line; a refusal is one line anywhere
unfoldable pub listed_text : Bool → Got Typelib → List ℕ
listed_text in_batch (bad n q) = listing_of (bad n q)
listed_text in_batch (got t e) = shown in_batch (listing_of (got t e)) ++ closing in_batch

-- list FILE
unfoldable pub list_saying : Bool → List ℕ → Saying
list_saying in_batch s = saying (listed_text in_batch (decode s)) (verdict_why (check_of s))
