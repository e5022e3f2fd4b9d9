-- Properties of a sink that receives rows one after another: if it received a list of rows, and
-- then further rows, it received the concatenated list.
use Rattle.std.proofs.Common.{List, [], ◌∷◌, ◌++◌, refl, subst}
use Rattle.office_books.specs.Rows.{TakesAll}

-- If a sink (a consumer of rows) received a list of rows and then one more row, then the sink
-- received the list extended by this row.
pub takes_more : {S T : Type 0} (takes : S → T → S → Type 0) (before now after : S) (rows : List T) (row : T)
    → TakesAll takes before rows now → takes now row after → TakesAll takes before (rows ++ row ∷ []) after
takes_more {S} takes before now after [] row took more =
    let P : S → Type 0 = λ from. takes from row after in
    (after, subst P took more, refl)
takes_more takes before now after (first ∷ rows) row took more =
    (took.0, took.1, takes_more takes took.0 now after rows row took.2 more)

-- A sink that received one list of rows and then another received the concatenation of the two
-- lists.
pub takes_both : {S T : Type 0} (takes : S → T → S → Type 0) (before now after : S) (rows others : List T)
    → TakesAll takes before rows now → TakesAll takes now others after → TakesAll takes before (rows ++ others) after
takes_both {S} takes before now after [] others took more =
    let P : S → Type 0 = λ from. TakesAll takes from others after in
    subst P took more
takes_both takes before now after (first ∷ rows) others took more =
    (took.0, took.1, takes_both takes took.0 now after rows others took.2 more)
