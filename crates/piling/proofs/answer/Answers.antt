-- `piling::answer` meets its contract: what a pile answers is told, or which file is wanting.
-- Assumes nothing.
use Rattle.number.proofs.Tools.{refl, rules}
use Rattle.piling.proofs.AnswerLaws.{saves_room, told, missed}
use Rattle.piling.proofs.answer.Goals as goal

pub returns-in-Added : goal.returns-in-Added
returns-in-Added c =
    let all = c.link_all-linked.ensures in
    let say = c.say.ensures in
    let went = c.in-Added.is in
    record {
      tidy = all.tidy;
      few = all.few;
      fits = say.fits;
      room = saves_room _ _ _ all.short went c.saves_of.ensures;
      tells = told _ _ _ _ _ _ _ _ _ _ _ _ _ _ all.ends refl _ went c.saves_of.ensures say;
    }

pub returns-in-Wanting : goal.returns-in-Wanting
returns-in-Wanting c =
    let all = c.link_all-linked.ensures in
    record { tidy = all.tidy; few = all.few; fits = search rules; room = tt; tells = missed _ _ _ _ _ _ _ _ _ _ _ _ _ _ all.ends refl _ c.in-Wanting.is refl refl refl }
