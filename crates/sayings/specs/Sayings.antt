-- What is said of an answer: its line, and whether it was answered or refused.
-- Assumes nothing.
use Rattle.reading.specs.declared.Refusal.{Refusal}
use Rattle.std.specs.Prelude.{Err, None, Ok, Option, Result, Some, ℕ}
use Rattle.halving.specs.declared.Looked.{Looked}
use Rattle.halving.specs.declared.Looked.TheVariants as halved
use Rattle.lookup.specs.declared.FoundMethod.{FoundMethod}
use Rattle.lookup.specs.declared.Search.{Search}
use Rattle.lookup.specs.declared.Search.TheVariants as search
use Rattle.lookup.specs.declared.Value.{Value}
use Rattle.said.specs.declared.Why.{Why}
use Rattle.said.specs.declared.Why.TheVariants.{Answered, Refused}
use Rattle.said.specs.Saying.{Saying, saying}
use Rattle.sayings.specs.Texts.{interface_text, counted_text, method_text, constant_text}

-- ---- answers: each is a refusal, or else an answer

unfoldable pub interface_why : Result (Option ℕ) Refusal → Why
interface_why (Ok (Some i)) = Answered
interface_why (Ok None) = Answered
interface_why (Err x) = Refused x

unfoldable pub counted_why : Result Looked Refusal → Why
counted_why (Ok (halved.Found i k)) = Answered
counted_why (Ok (halved.None k)) = Answered
counted_why (Err x) = Refused x

unfoldable pub method_why : Result (Search FoundMethod) Refusal → Why
method_why (Ok (search.Found m)) = Answered
method_why (Ok search.None) = Answered
method_why (Ok (search.Undetermined i)) = Answered
method_why (Err x) = Refused x

unfoldable pub constant_why : Result (Search Value) Refusal → Why
constant_why (Ok (search.Found v)) = Answered
constant_why (Ok search.None) = Answered
constant_why (Ok (search.Undetermined i)) = Answered
constant_why (Err x) = Refused x

unfoldable pub say_interface : Result (Option ℕ) Refusal → Saying
say_interface a = saying (interface_text a) (interface_why a)

unfoldable pub say_counted : Result Looked Refusal → Saying
say_counted a = saying (counted_text a) (counted_why a)

unfoldable pub say_method : Result (Search FoundMethod) Refusal → Saying
say_method a = saying (method_text a) (method_why a)

unfoldable pub say_constant : Result (Search Value) Refusal → Saying
say_constant a = saying (constant_text a) (constant_why a)
