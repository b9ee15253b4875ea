-- Parts of the directory's acts that are functions of their own.
use Rattle.std.specs.Prelude.{ℕ, Bool, true, false, cond, eqb, ltb, Option, Some, None}
use Rattle.directory_rules.specs.Acts.{read, load, move, get, Act, stop, give, ask, ◌>>=◌, ◌>>◌, must, Found, ended, failed, word, found_in, clearing, ending, safe_point}
use Rattle.directory_rules.specs.Table.{Given}
use Rattle.directory_rules.specs.Directory.{too_long, next_field, first_field, number_field, group_register, person_register, keep_before, leaving_all, link_person, members, cut_found, counting, plainly}
use Rattle.directory_rules.specs.declared.Place.{Place}

-- what stands at a place of a chain: a record, with its word, or the chain's end
abbrev pub standing : Found → Act (Option ℕ)
standing ended = give None
standing (failed n) = stop n
standing (word w) = give (Some w)

unfoldable pub looking : ℕ → Act (Option ℕ)
looking at = ask (read at number_field) (λ r. standing (found_in r))

-- where no link is left to pass: a record is one too many
abbrev pub none_after : Option ℕ → Act (Unit {0})
none_after None = give tt
none_after (Some w) = stop too_long

unfoldable pub ending_at : ℕ → Act (Unit {0})
ending_at at = looking at >>= none_after

-- whether a walk ends with what it finds, and if so, whether at its key
abbrev pub judge : ℕ → ℕ → Option ℕ → Option Bool
judge key least None = Some false
judge key least (Some w) = cond (eqb w key) (Some true) (cond (ltb w least) (Some false) None)

-- of removing: a group left
unfoldable pub leaving_one : ℕ → ℕ → Act (Unit {0})
leaving_one half n = do
  w ← members half n
  cut_found w
  must (load group_register group_register next_field)

-- from the person that a walk found on
abbrev pub removing_found : ℕ → ℕ → Place → Act (Unit {0})
removing_found half n w = do
  keep_before w.at w.via
  must (move person_register w.at)
  must (get group_register)
  leaving_all half half n
  must (load person_register person_register next_field)
  link_person w.via

-- of counting and taking: a record read, and passed
abbrev pub pass_on : Option ℕ → Act (Option ℕ)
pass_on None = give None
pass_on (Some w) = must (load 0 0 next_field) >> give (Some w)

unfoldable pub passing : Act (Option ℕ)
passing = looking 0 >>= pass_on

-- of listing: the members of the group in its register counted
unfoldable pub counting_members : ℕ → Act ℕ
counting_members half = must (load 0 group_register first_field) >> counting half 0

-- of every call: the first n registers cleared
abbrev pub clearing_first : ℕ → Act (Unit {0})
clearing_first n = clearing n 0 (give tt)

-- a change as a whole call: its safe point, its act, and its registers cleared
abbrev pub whole : ℕ → Act (Unit {0}) → Act Given
whole n a = must safe_point >> ending n (plainly a)
