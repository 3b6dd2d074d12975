-- Document 02, "Minor version 2": the minor that is written is decided by what is written, whatever minor the file has.
-- Assumes nothing.
use mathlib.Core.Path.{◌≡◌, refl, sym, ap, ◌∙◌}
use mathlib.Core.List.{[], ◌∷◌}
use lib.ListN.{get_or}
use Rattle.reading.specs.Got.{got}
use Rattle.reader.specs.Values.{entries_in}
use Rattle.reader.specs.Reader.{decode}
use Rattle.reader.specs.Reader.Marked.{P3, P3newer, says3, says3newer, decodes3, decodes3newer}
use Rattle.meaning.specs.Stock.Form.{normal_form}
use Rattle.meaning.proofs.Normal.Examples.{with_string}
use Rattle.meaning.proofs.Normal.Cases.{string_minor, readable_string}
use Rattle.meaning.proofs.Stock.Back.{plain_readable, minor_byte}
use Rattle.joining.specs.Outcome.{written}
use Rattle.link.specs.Outcome.{normal_of}
use Rattle.link.specs.Demand.{Means}
use Rattle.link.proofs.Files.{form_Means}
use Rattle.link.proofs.Marked.{marked}

same_entries : normal_of (got says3newer 82) ≡ normal_of (got says3 82)
unfolding normal_of entries_in says3 says3newer
same_entries = refl

-- P3 with minor 2 normalises to P3
pub older_form : normal_of (decode P3newer) ≡ written P3
older_form = ap normal_of decodes3newer ∙ same_entries ∙ sym (ap normal_of decodes3) ∙ marked.own3

-- an interface with one method, whose result has tag 23, is written with minor 2, and reads back
pub newer_form : (get_or (normal_form (with_string ∷ [])) 17 0 ≡ 2) × Means (normal_form (with_string ∷ [])) (with_string ∷ [])
newer_form = (minor_byte (with_string ∷ []) ∙ string_minor, form_Means (with_string ∷ []) (plain_readable (with_string ∷ []) readable_string))
