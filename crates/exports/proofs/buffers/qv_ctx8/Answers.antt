-- `exports::buffers::qv_ctx8` meets its contract: `ctx8` answers for the struct as for the slices. Assumes nothing.
use mathlib.Core.Path.{ap, ◌∙◌}
use Rattle.exports.specs.Handed.{ctx8_handed, ctx8_handed_out}
use Rattle.meaning.specs.Tables.{Table}
use Rattle.exports.proofs.Nears.{ctx8_near}
use Rattle.exports_answers.proofs.Crossing.{near_of, code_of, stored_of}
use Rattle.exports.proofs.States.{handed_call, handed_out}
use Rattle.exports.proofs.buffers.qv_ctx8.Goals as goal

pub tell_number-requires : goal.tell_number-requires
tell_number-requires c =
    let a = c.args in
    near_of (λ n. n) _ _
    (c.ctx8.ensures.result_value
    ∙ handed_call c.new-table.result a.midstate.now a.bytes_hashed a.buffer.now c.hash_state-state.result a.res a.out.now c.hash_state-state.ensures)
    (ctx8_near c.new-table.result a.midstate.now a.bytes_hashed a.buffer.now a.res a.out.now)

pub returns : goal.returns
returns c =
    let a = c.args in
    let e = c.ctx8.ensures.result_value
    ∙ handed_call c.new-table.result a.midstate.now a.bytes_hashed a.buffer.now c.hash_state-state.result a.res a.out.now c.hash_state-state.ensures
    ∙ ap (λ (t : Table). ctx8_handed t a.midstate.now a.bytes_hashed a.buffer.now a.res a.out.now) c.new-table.ensures in
    record {
      value = code_of (λ n. n) _ _ e _ c.tell_number.ensures.value;
      width_after = stored_of (λ n. n) _ _ e (λ n. n) _ _ c.tell_number.ensures.value_after;
      out_after = c.ctx8.ensures.out_after
          ∙ handed_out c.new-table.result a.midstate.now a.bytes_hashed a.buffer.now c.hash_state-state.result a.res a.out.now c.hash_state-state.ensures
          ∙ ap (λ (t : Table). ctx8_handed_out t a.midstate.now a.bytes_hashed a.buffer.now a.res a.out.now) c.new-table.ensures;
    }
