-- `row::call::next_row` meets its contract.
use Rattle.row.proofs.call.next_row.Goals as goal

pub row_on-requires : goal.row_on-requires
row_on-requires c =
    let p = c.requires in record {
      sound = p.sound;
      clean = (λ _. p.clean);
      li_lt_fronts = p.li_lt_fronts;
    }
