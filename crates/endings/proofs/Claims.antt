-- All that is claimed of walks and of ends. Assumes nothing.
use Rattle.model.specs.Calls.{table_states}
use Rattle.model.proofs.TableBodies.{ascends_accepted}
use Rattle.endings.specs.Claims.{WalksByWords, EndingsHold}
use Rattle.endings.proofs.Levels.{level_is}
use Rattle.endings.proofs.ByWords as words
use Rattle.endings.proofs.Built as built

walks_by_words : WalksByWords
walks_by_words =
    record {
      by_words = λ s work ok. words.by_words (table_states s) (ascends_accepted s work ok);
      determined = λ s work ok. words.determined (table_states s) (ascends_accepted s work ok);
      levels = λ s work ok. level_is (table_states s) (ascends_accepted s work ok);
      admits_nothing = λ s work ok. words.admits_nothing (table_states s) (ascends_accepted s work ok);
    }

-- what a walk tells, by words; and over the tables that builds write
pub endings_hold : EndingsHold
endings_hold =
    record {
      walks = walks_by_words;
      built = λ settings allowed. record {
        every_state = built.every_state settings allowed;
        as_before = built.as_before settings allowed;
      };
    }
